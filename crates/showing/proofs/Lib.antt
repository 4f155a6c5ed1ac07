pub mod Polygons
pub mod Searched
pub mod Answered
