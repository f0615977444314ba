pub mod Engine
pub mod EngineLaws
pub mod CounterLaws
pub mod CodeLaws
pub mod LogLaws
