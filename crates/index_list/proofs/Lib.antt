pub mod Allowed
pub mod Acts
pub mod Lists
pub mod Wins
pub mod Exchanged
