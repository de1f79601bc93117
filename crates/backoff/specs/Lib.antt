pub mod Density
