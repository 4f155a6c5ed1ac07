pub mod Within
pub mod Fronts
pub mod Nothing
