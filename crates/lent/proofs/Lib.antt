-- The laws of `lent` that belong to no one function
pub mod Answers
pub mod Bools
pub mod Branches
pub mod Ends
mod Left
pub mod Lists
pub mod Once
pub mod Pens
pub mod Writes
