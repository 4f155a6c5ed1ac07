pub mod Decisions
pub mod Lists
pub mod Corners
