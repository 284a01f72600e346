pub mod InForce
pub mod Elapsed
pub mod SoundBars
pub mod BarByBar
