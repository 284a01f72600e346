pub mod Formed
pub mod MovedNotes
pub mod OnlyPlaces
pub mod OtherBarlines
pub mod Places
pub mod Searches
