pub mod Candidates
pub mod Fitted
pub mod Builds
pub mod Tries
pub mod Laws
