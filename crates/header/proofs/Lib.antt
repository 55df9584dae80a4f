-- The laws of `header` that belong to no one function
mod Letters
mod Names
