pub mod Stacks
pub mod Total
pub mod Tables
pub mod FullPuts
pub mod Ended
pub mod Progress
pub mod ProgressCalls
