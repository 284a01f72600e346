pub mod Laws
pub mod Meetings
pub mod Rows
pub mod Tables
