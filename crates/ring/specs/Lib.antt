pub mod Places
pub mod Flags
pub mod Ring
pub mod Demand
