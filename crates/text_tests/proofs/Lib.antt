pub mod FourQuarters
pub mod TwoVoices
