-- The file that PLtoTF makes of a font
pub mod Pick
pub mod Values
pub mod Written
pub mod Repaired
pub mod Sane
pub mod Build
