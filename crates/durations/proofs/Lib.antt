pub mod Bars
pub mod Beats
pub mod Firsts
pub mod FractionLemmas
pub mod Grids
pub mod Groups
pub mod LowestTerms
pub mod OneList
pub mod Plain
pub mod Powers
pub mod Steps
pub mod Sums
pub mod ValuesExist
pub mod Wide
mod WorkedPitches
mod WorkedSpans
