-- The marked examples of the scope
pub mod Marked
