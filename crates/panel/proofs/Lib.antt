-- The laws of `panel` that belong to no one function
mod Asked
pub mod Once
