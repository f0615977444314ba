pub mod Syntax
pub mod Words
pub mod Contents
pub mod Layout
pub mod Scan
pub mod Decode
pub mod Read
