-- What is printed is read back
pub mod Quiet
pub mod Parsed
pub mod Marked
