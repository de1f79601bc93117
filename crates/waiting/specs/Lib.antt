pub mod Answering
pub mod Waits
pub mod Passes
