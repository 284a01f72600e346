pub mod Lines
pub mod OneAnswers
pub mod OneRuns
pub mod Runs
mod WorkedScripts
