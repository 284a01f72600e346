pub mod KeyBits
pub mod KeysFrom
pub mod SetKeys
pub mod Separators
pub mod WrittenKeys
pub mod TextLines
pub mod ChangeLines
pub mod MajorKeys
