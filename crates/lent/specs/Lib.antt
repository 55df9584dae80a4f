-- What the contracts of `lent` cite, and those of every crate above it
pub mod Answer
pub mod Fold
pub mod Part
pub mod Pens
pub mod Write
