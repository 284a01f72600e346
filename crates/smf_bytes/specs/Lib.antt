pub mod Quantity
pub mod Message
pub mod Track
pub mod Chunk
