pub mod Costs
pub mod KeptRules
pub mod TableCode
pub mod Tables
