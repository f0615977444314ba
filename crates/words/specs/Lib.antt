pub mod Filled
pub mod Ranges
