pub mod Contents
pub mod Kinds
pub mod KindLaws
pub mod BodyKinds
pub mod BodyKindLaws
pub mod ContentsLaws
