pub mod Fields
pub mod Instr
pub mod Meaning
pub mod FieldLaws
pub mod InstrLaws
pub mod Stands
pub mod StandsLaws
