pub mod Walks
pub mod Sweep
pub mod Demand
pub mod Sizes
