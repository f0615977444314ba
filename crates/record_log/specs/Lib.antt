pub mod Log
pub mod LogLaws
pub mod Append
pub mod Kinds
pub mod Walk
pub mod WalkLaws
pub mod RecordLaws
pub mod Places
