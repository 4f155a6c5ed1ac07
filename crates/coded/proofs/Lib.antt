pub mod Orders
pub mod Rings
