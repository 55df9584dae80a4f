-- What the contracts of `settle` cite
pub mod Settle
pub mod Needs
pub mod Room
