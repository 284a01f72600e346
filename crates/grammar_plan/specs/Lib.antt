pub mod Drafts
pub mod Frames
pub mod LeafTables
pub mod Plans
pub mod QuietRows
pub mod Spans
