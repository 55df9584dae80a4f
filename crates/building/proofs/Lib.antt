-- The laws of the file that is written of a font
pub mod Picks
pub mod Places
pub mod Laid
pub mod Accepts
pub mod Chars
pub mod Runs
pub mod Kerns
pub mod Bytes
pub mod Repairs
pub mod Accepted
pub mod Marked
