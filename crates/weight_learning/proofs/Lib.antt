pub mod Tables
pub mod RootTable
pub mod Logarithms
pub mod StepsByRoots
pub mod Falling
pub mod Sums
pub mod WeightLemmas
pub mod CountedRules
pub mod LearnedWeights
pub mod OnlyWeights
pub mod SameDerivations
mod WorkedWeights
