pub mod Folding
pub mod Going
pub mod Lines
pub mod Showing
pub mod Telling
pub mod Tracing
