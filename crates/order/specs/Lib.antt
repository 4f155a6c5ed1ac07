pub mod PairTest
pub mod Order
