pub mod Before
pub mod Lasts
pub mod Worked
