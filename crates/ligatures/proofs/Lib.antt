-- The laws of `ligatures` that belong to no one function
pub mod Boundary
mod Labelled
mod Names
pub mod Ways
