pub mod Folds
pub mod Plays
pub mod Shows
pub mod Traces
