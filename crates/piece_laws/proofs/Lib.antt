pub mod Files
pub mod EvenBars
pub mod NoteEvents
pub mod ChannelNotes
pub mod PieceEvents
pub mod PieceNotes
pub mod PieceBars
pub mod FormedPieces
