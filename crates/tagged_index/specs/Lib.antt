pub mod Fields
pub mod Limits
