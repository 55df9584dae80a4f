-- The laws of `judge` that belong to no one function
pub mod Cases
pub mod Places
pub mod Once
pub mod Enough
mod Numbers
