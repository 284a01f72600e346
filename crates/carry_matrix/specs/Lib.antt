pub mod Choices
pub mod Laws
pub mod LowSums
pub mod Rows
