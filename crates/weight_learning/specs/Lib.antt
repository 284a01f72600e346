pub mod Steps
pub mod Thresholds
pub mod Shares
pub mod Weights
pub mod Learned
pub mod Laws
