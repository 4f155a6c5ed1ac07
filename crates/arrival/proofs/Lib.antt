pub mod Put
pub mod Refusals
pub mod Returned
pub mod Runs
pub mod Kept
pub mod Further
pub mod Worked
