pub mod Beyond
pub mod Most
