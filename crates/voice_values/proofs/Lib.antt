pub mod BarSounded
pub mod BarSounds
pub mod BarValues
pub mod GoingOn
pub mod TimedSounds
pub mod ValuesExist
