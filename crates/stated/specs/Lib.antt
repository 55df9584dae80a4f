-- What the listing of a file states: as statements, and as a font
pub mod Formats
pub mod Stated
pub mod Listed
