mod Counting
mod Feeding
mod NearMisses
mod Opening
mod Putting
mod Taking
