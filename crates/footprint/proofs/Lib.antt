pub mod Chunks
pub mod Good
pub mod Verdicts
pub mod Table
