pub mod Bounded
pub mod Work
pub mod Headline
pub mod Full
pub mod WrongActs
pub mod Ended
pub mod Progress
pub mod Life
