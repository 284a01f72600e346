pub mod Steps
pub mod Lines
pub mod Numbers
pub mod Marks
pub mod Values
pub mod TimeSignatures
pub mod Divisors
