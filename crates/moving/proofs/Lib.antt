pub mod Worked
pub mod Moved
pub mod Answers
pub mod Written
