pub mod Laws
pub mod OneAnswers
pub mod Script
