mod Instructions
pub mod Runs
