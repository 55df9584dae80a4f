-- The laws of `tfm` that belong to no one function
pub mod Accepted
pub mod Bounds
pub mod Exact
pub mod Once
pub mod Refusals
pub mod Starts
