pub mod Pieces
pub mod FileLemmas
