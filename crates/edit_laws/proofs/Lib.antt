pub mod BarEdits
pub mod Edited
pub mod EditedCounts
pub mod OneReached
mod WorkedEdits
mod WorkedReached
