pub mod BarsRead
pub mod Cutting
pub mod Durations
pub mod MeasuresFull
pub mod Names
pub mod NoteLines
pub mod NoteParts
pub mod NotesRead
pub mod OutsideParts
pub mod ReadTexts
pub mod PartsRead
pub mod Settings
pub mod Texts
pub mod ValueTexts
pub mod ValuesRead
pub mod ValuesSaid
mod WorkedTexts
