pub mod Demand3
pub mod CheckExact
pub mod Grammar
pub mod Refusals
pub mod Trace
pub mod Cases
