pub mod Kept
pub mod Run
pub mod Samples
