pub mod Failure
pub mod Sources
