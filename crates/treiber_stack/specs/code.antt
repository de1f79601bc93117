-- How the operations of a stack are read as its machine's. Calls.antt stands on these files, except `Steps`, `Naming`, `Ranging` and `RangeTrying`, which stand on it.
pub mod Begun
pub mod Closing
pub mod Every
pub mod Folding
pub mod Giving
pub mod KeepsAnswers
pub mod KeepsEvery
pub mod Left
pub mod Looking
pub mod Machine
pub mod Naming
pub mod Putting
pub mod RangeTrying
pub mod Ranging
pub mod Refusing
pub mod Steps
pub mod Taking
