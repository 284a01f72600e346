pub mod OnlyPlaces
pub mod Changed
pub mod Refusals
