pub mod Listed
pub mod Roots
pub mod VoiceBars
pub mod WholeBars
mod WorkedBars
