pub mod OneMoreDraw
pub mod Tracks
pub mod Voices
pub mod Opening
pub mod Worked
pub mod Sung
pub mod FirstBeats
