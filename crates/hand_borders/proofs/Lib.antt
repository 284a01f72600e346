pub mod FirstLeast
pub mod Followed
pub mod Passes
pub mod Steps
