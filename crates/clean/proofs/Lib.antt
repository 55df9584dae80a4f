-- The laws of clean files
pub mod Absent
pub mod Own
pub mod Marks
pub mod Small
pub mod Verdicts
