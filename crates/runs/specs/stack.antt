pub mod Bounded
pub mod Work
pub mod Headline
pub mod Full
pub mod Ended
pub mod Progress
