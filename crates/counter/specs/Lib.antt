pub mod Counter
pub mod CounterLaws
