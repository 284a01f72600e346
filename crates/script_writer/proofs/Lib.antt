pub mod PrintedBytes
pub mod WordSplits
pub mod EditWords
pub mod TextLines
pub mod ReadBack
mod WorkedTexts
