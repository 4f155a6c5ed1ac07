pub mod Digits
pub mod Entries
pub mod Telling
