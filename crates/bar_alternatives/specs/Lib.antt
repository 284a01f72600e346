pub mod BestTrees
pub mod Laws
pub mod Totals
