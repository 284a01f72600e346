pub mod Quantities
pub mod Messages
pub mod Tracks
pub mod Files
pub mod PlayedNotes
