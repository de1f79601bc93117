pub mod Prelude
pub mod Bulk
pub mod Calls
pub mod code
