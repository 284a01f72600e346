pub mod Appended
pub mod Repeats
pub mod Chords
pub mod MarkedNotes
pub mod PartsWritten
pub mod FewActual
pub mod FewSounds
pub mod OneText
mod WorkedTexts
