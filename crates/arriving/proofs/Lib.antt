pub mod Laid
pub mod Said
