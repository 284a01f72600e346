pub mod Hearing
pub mod NotesHeard
pub mod Columns
pub mod VoicesEvents
pub mod Written
pub mod Laws
