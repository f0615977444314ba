pub mod Values
pub mod Places
pub mod ScanLaws
pub mod BodyLaws
pub mod RowLaws
pub mod ReadLaws
pub mod PastLaws
