pub mod ShortForms
pub mod Messages
