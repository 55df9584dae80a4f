-- The laws of fonts
pub mod Same
