pub mod EditOutcomes
pub mod Edits
pub mod Laws
pub mod Reached
