-- The laws of `mend` that belong to no one function
pub mod Back
pub mod Kept
pub mod Twice
pub mod Strings
pub mod Tags
pub mod Marked
pub mod Again
