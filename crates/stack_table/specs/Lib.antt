pub mod Layout
pub mod Slots
pub mod Lines
pub mod Memories
pub mod Effects
pub mod Core
pub mod Lists
