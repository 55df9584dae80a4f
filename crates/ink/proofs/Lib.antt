-- The laws of `ink` that belong to no one function
mod Digits
