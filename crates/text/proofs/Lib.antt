pub mod Laws
pub mod Decimal
pub mod Room
pub mod Saying
