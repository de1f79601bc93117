pub mod Ends
pub mod Fed
pub mod FedIsTie
pub mod Frames
pub mod NearMisses
