pub mod Cheap
