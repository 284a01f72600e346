pub mod Barlines
pub mod LocalInputs
pub mod Lookups
pub mod Passes
pub mod Turns
pub mod Performances
