pub mod Ready
pub mod Predict
