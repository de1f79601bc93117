pub mod Faults
pub mod Outcome
pub mod Readings
pub mod Traced
