pub mod Sums
pub mod Layout
pub mod LayoutLaws
pub mod BodyLaws
pub mod AssembledLaws
pub mod Scratch
pub mod AnswerLaws
pub mod Moved
