-- What the contracts of `gather` cite
pub mod Steps
pub mod Answers
pub mod Entries
pub mod Pairs
pub mod Fonts
