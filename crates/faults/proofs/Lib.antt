-- The laws of `faults` that belong to no one function
pub mod Cycles
pub mod Largest
pub mod Walk
