pub mod Every
pub mod Edge
pub mod Turned
pub mod Asked
