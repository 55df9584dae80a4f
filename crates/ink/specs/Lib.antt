-- What the contracts of `ink` cite
pub mod Ink
