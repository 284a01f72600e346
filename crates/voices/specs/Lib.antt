pub mod Breaks
pub mod Voice
