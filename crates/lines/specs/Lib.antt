pub mod Lines
pub mod Parameters
pub mod Crossings
pub mod Round
