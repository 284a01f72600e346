pub mod Draws
pub mod Beat
pub mod Voice
pub mod Track
pub mod MidiFile
pub mod DrillEdit
