-- What the contracts of `panel` cite
pub mod Panel
