pub mod Act
pub mod Run
pub mod ActLaws
