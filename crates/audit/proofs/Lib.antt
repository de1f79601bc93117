pub mod Delivered
pub mod LinesSoFar
pub mod OneReading
pub mod Texts
pub mod Writing
