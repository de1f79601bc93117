-- How the operations of a queue are read as its machine's. Calls.antt stands on these files, except `Steps`, `Naming` and `KeepsGauge`, which stand on it.
pub mod Closing
pub mod Counting
pub mod Every
pub mod Gauging
pub mod Giving
pub mod KeepsAnswers
pub mod KeepsEvery
pub mod KeepsGauge
pub mod Left
pub mod Looking
pub mod Machine
pub mod Naming
pub mod Putting
pub mod Seeking
pub mod Shutting
pub mod Steps
pub mod Taking
