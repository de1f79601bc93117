pub mod Memories
pub mod Slots
pub mod Moves
pub mod Does
pub mod Effects
pub mod Laws
pub mod Opening
pub mod Hosts
