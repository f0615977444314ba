pub mod Bound
pub mod BoundLaws
