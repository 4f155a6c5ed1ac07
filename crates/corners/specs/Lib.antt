pub mod Corners
pub mod Promise
