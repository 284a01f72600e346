pub mod Changes
pub mod Keys
pub mod Separators
pub mod TextLines
pub mod LilyChanges
pub mod Writing
