pub mod BodyWalks
pub mod Walks
