-- What the contracts of `ligatures` cite
pub mod Labels
pub mod Ligatures
pub mod Programs
