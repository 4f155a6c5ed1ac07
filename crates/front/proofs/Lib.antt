pub mod Boxes
pub mod Told
