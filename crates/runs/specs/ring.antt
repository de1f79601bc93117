pub mod Machine
pub mod Bounded
pub mod Linearizable
pub mod Work
pub mod Ended
pub mod Headline
pub mod Full
pub mod Progress
