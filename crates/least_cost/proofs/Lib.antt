pub mod AskedCosts
pub mod LeastForests
pub mod LeastTold
pub mod Roots
pub mod TableLists
pub mod Tables
