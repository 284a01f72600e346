pub mod Events
pub mod Laws
pub mod Parts
pub mod VoiceEvents
pub mod Writable
