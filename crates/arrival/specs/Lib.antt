pub mod Calls
pub mod Runs
pub mod Whole
pub mod Promise
pub mod Worked
