pub mod PlayedNotes
pub mod VoiceTracks
pub mod AllVoices
pub mod ReadChanges
pub mod MergedEvents
pub mod LoadedFile
pub mod ReadFile
