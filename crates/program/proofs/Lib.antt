-- The laws of `program` that belong to no one function
pub mod Marked
pub mod Starts
