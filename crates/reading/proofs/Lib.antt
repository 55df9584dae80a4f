-- What is printed is read back
pub mod Marked
pub mod Digits
pub mod Reals
pub mod Nearest
pub mod Tells
pub mod Walked
pub mod Raw
