pub mod Beyond
pub mod Signed
