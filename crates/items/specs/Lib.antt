-- What the contracts of `items` cite
pub mod Items
pub mod Words
