pub mod Displaced
pub mod Points
pub mod Units
pub mod Views
