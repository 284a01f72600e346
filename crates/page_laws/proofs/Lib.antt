pub mod BarsRead
pub mod FullBars
pub mod InWholes
pub mod LinesRead
pub mod NoteWords
pub mod NotesRead
pub mod PageChords
pub mod PageEvents
pub mod PagePitches
pub mod PageValues
pub mod Pages
mod WorkedPages
