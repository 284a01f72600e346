pub mod Places
pub mod Latest
pub mod Ending
pub mod OneList
pub mod Keeping
