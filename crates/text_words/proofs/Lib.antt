pub mod Divisors
pub mod LineLemmas
pub mod NumberLemmas
pub mod ReadKeys
pub mod TextNumbers
pub mod TextRuns
pub mod TextSplits
pub mod TextTests
