pub mod Machine
pub mod Answers
pub mod Rule
pub mod Deeds
pub mod Places
