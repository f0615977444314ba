pub mod Runs
pub mod Steps
pub mod StepLaws
pub mod Page
