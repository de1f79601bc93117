pub mod Layout
pub mod Memories
pub mod Lines
pub mod Lists
pub mod Seats
pub mod Free
pub mod Effects
pub mod Core
