pub mod RuleLists
pub mod Raising
