pub mod State
pub mod Values
pub mod Steps
pub mod Functions
