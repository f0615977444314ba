pub mod Args
pub mod ArgsLaws
