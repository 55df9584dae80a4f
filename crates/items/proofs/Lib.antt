-- The laws of `items` that belong to no one function
pub mod Heads
pub mod Laws
pub mod Jumps
