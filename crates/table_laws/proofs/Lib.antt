pub mod Derivations
pub mod Performances
pub mod ReadyCells
pub mod SomeDead
