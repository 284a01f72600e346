pub mod Answered
pub mod Cutting
pub mod Fineness
pub mod Grouped
pub mod Handed
pub mod HandsKept
pub mod InForce
pub mod Kept
pub mod KeysOnce
pub mod LawsKept
pub mod LeastNumbers
pub mod Middles
pub mod NearKeys
pub mod NextKeys
pub mod OneKey
pub mod Parting
pub mod ShiftedTakes
pub mod SidesCounted
pub mod StruckAgain
pub mod Strummed
pub mod Strumming
pub mod Told
mod WorkedHands
mod WorkedStrums
mod WorkedTakes
