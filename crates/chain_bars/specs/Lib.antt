pub mod Chain
pub mod Endings
pub mod Laws
pub mod Products
pub mod Reaches
pub mod Sides
pub mod Tower
pub mod Walks
