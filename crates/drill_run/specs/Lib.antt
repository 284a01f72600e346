pub mod Drill
pub mod Summary
pub mod Ends
pub mod Laws
pub mod Stands
