pub mod Steps
pub mod Reaching
pub mod Settable
pub mod BestSoFar
pub mod OneFit
pub mod Tries
pub mod TriedTicks
mod Worked
pub mod Answered
