pub mod Words
pub mod Pitches
pub mod Notes
pub mod Hearing
pub mod Reading
pub mod Laws
