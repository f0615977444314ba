pub mod Fold
pub mod FoldLaws
pub mod Index
pub mod Chains
pub mod IndexLaws
pub mod SearchLaws
pub mod Book
pub mod BookLaws
