pub mod EditedScore
