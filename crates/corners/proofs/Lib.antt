pub mod Signs
pub mod Corner
pub mod Returned
pub mod InOrder
