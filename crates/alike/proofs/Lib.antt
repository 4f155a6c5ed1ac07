pub mod Alike
pub mod Bytes
