pub mod Held
pub mod Points
pub mod Pairs
