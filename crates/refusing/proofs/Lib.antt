pub mod Told
pub mod Turns
pub mod Last
pub mod Cascade
