pub mod StandsOnce
pub mod Rules
pub mod TestLaws
pub mod RuleLaws
pub mod StepLaws
