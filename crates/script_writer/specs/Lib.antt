pub mod EditText
pub mod Laws
