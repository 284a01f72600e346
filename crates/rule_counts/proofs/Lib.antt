pub mod Raising
pub mod Adding
pub mod TreeRules
