-- The laws of `gather` that belong to no one function
pub mod Walks
mod Enters
mod Lists
mod Bridge
mod Ends
mod Tops
pub mod Firsts
pub mod Once
