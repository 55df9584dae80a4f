-- What a property list says of a font
pub mod Font
pub mod Told
pub mod Checked
pub mod Read
