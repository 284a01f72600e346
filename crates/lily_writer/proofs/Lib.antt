pub mod BarsWritten
pub mod EventsAhead
pub mod Names
pub mod NotesAfter
pub mod OnePage
mod Rows
pub mod Scales
pub mod SomeValues
pub mod StavesWritten
pub mod Stretches
pub mod VoiceSplit
pub mod WrittenPieces
