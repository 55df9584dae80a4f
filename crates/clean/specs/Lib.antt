-- The steps that programs meet, and what a verdict of clean says
pub mod Met
pub mod Clean
