pub mod Inputs
pub mod Measuring
pub mod Outcome
pub mod Relaying
pub mod Stats
