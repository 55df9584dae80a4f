-- What the contracts of `listing` cite
pub mod Characters
pub mod Listing
pub mod Inside
pub mod Settings
