pub mod AllRecords
pub mod BarTokens
pub mod ColumnLemmas
pub mod Merging
pub mod OneText
pub mod Rising
pub mod RisingPlaces
pub mod TextsExist
pub mod VoiceTokens
pub mod Writing
mod WorkedChanges
mod WorkedRecords
mod WorkedScore
mod WorkedTokens
pub mod ReadBars
pub mod OneWritten
