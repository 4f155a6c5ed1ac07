pub mod Signs
pub mod Count
pub mod Two
pub mod Corner
pub mod Told
pub mod Corners
pub mod Tables
pub mod Sides
