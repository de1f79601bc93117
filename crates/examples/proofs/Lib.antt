pub mod Crossing
mod Hearing
mod Putting
