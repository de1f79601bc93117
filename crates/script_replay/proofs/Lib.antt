pub mod Outcomes
pub mod Tracing
