-- The findings of a file and its mended copy
pub mod Holds
pub mod Findings
pub mod Copy
