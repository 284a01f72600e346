pub mod Words
pub mod Hearing
pub mod Reading
pub mod Laws
