mod Bits
pub mod Words
