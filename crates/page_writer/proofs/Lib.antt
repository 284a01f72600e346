pub mod Lines
pub mod NotesWritten
pub mod BegunGraces
pub mod MostGraces
pub mod BarsWritten
pub mod StavesWritten
pub mod PageWritten
pub mod OnePage
mod WorkedPages
