-- What the contracts of `program` cite
pub mod Steps
pub mod Marks
