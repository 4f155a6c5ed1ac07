pub mod Reading
pub mod Answer
