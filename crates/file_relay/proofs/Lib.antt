pub mod AllDelivered
pub mod Fronts
pub mod Readers
