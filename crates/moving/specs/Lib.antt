pub mod Moved
pub mod Answers
pub mod Written
pub mod Worked
