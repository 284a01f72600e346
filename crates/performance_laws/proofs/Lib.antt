pub mod ChordLemmas
pub mod EditedBars
pub mod OneBars
pub mod OneChords
pub mod OneEvents
pub mod OneVoices
pub mod PerformedVoices
pub mod SomeChords
mod WorkedAnswers
