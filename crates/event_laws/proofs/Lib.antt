pub mod VoiceEvents
