pub mod EventNotes
pub mod NoteMessages
pub mod Changes
pub mod RenderedFile
pub mod Strokes
pub mod Laws
