pub mod NoteBreaks
pub mod ChordParts
pub mod Gathered
mod OneBreaks
pub mod VoiceParts
