pub mod Editable
pub mod Laws
