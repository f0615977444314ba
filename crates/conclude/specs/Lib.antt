pub mod End
pub mod EndLaws
pub mod SettleLaws
