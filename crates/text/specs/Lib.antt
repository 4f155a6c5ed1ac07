pub mod Decimal
pub mod Room
pub mod Code
pub mod Saying
