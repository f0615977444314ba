pub mod Execution
pub mod ExecutionLaws
