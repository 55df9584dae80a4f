-- The laws of `listing` that belong to no one function
mod Cases
pub mod Once
mod Found
mod Parts
