pub mod Memories
pub mod Does
pub mod Effects
pub mod Laws
pub mod Opening
pub mod Hosts
pub mod Gives
