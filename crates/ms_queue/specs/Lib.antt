pub mod Prelude
pub mod Calls
pub mod code
