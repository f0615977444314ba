pub mod Build
pub mod BuildLaws
