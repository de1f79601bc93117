pub mod Asked
pub mod Sources
