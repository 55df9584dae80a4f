-- What the contracts of `judge` cite
pub mod Judge
pub mod Inside
pub mod Verdicts
