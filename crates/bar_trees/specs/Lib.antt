pub mod BarTrees
pub mod WrittenLists
