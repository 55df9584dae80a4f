-- The laws of `words` that belong to no one function
pub mod Enough
mod Sentences
