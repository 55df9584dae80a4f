-- What is wrong with a file: when each finding is there. Every definition speaks of tables, which read as 0 past their end.
pub mod Header
pub mod Steps
pub mod Cycle
pub mod Characters
