pub mod Causes
pub mod Counts
pub mod Ends
pub mod Files
pub mod Calls
pub mod Memory
pub mod Stock
pub mod Real
