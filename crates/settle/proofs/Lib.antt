-- The laws of `settle` that belong to no one function
pub mod Found
mod Moves
mod Room
mod States
pub mod Whole
