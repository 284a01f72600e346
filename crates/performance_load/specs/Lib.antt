pub mod Laws
pub mod Loading
pub mod Take
pub mod Taking
