pub mod Values
pub mod GoesOn
pub mod Ahead
pub mod Laws
