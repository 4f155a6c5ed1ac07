pub mod Lists
pub mod Finite
pub mod Numbers
pub mod Way
pub mod Whole
pub mod OneAnswer
pub mod Turns
