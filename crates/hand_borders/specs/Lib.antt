pub mod Borders
pub mod Laws
pub mod Ways
