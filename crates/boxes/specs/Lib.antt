pub mod Boxes
pub mod Shared
pub mod Near
