pub mod Code
pub mod Whole
