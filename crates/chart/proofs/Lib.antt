pub mod Exact
pub mod Read
pub mod Recorded
pub mod Returned
pub mod Shown
pub mod Stored
pub mod Widest
