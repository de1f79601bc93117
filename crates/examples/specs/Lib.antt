pub mod Jobs
pub mod Over
pub mod Puts
pub mod Told
