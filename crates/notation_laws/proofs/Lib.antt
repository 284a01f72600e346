pub mod BarHeard
pub mod ColumnGroups
pub mod FullBars
pub mod GroupSegments
pub mod Says
pub mod ScoreEvents
pub mod Segments
pub mod SoundSegments
pub mod SpelledNotes
pub mod SoundsHeard
pub mod SungNotes
pub mod TokenSegments
pub mod VoiceHeard
mod WorkedVoices
pub mod WrittenNotes
