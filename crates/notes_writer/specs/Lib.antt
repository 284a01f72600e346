pub mod Line
pub mod ByOnset
pub mod NotesText
pub mod Told
pub mod Laws
