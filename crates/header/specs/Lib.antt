-- What the contracts of `header` cite
pub mod Header
pub mod Parameters
