pub mod Run
pub mod Points
pub mod Weight
mod Raises
pub mod Pays
pub mod Ends
pub mod InOrder
pub mod Mistakes
pub mod WrongAnswers
pub mod WrongRuns
pub mod Full
pub mod WrongHands
pub mod AnyHands
