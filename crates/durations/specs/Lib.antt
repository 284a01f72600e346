pub mod Joined
pub mod Laws
pub mod Pitch
pub mod Spans
pub mod Value
pub mod Values
