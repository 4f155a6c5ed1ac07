pub mod Sets
pub mod Editions
