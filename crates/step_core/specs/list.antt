pub mod Machine
pub mod Law
pub mod Rule
pub mod Samples
