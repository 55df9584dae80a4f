-- What the contracts of `tfm` cite, in the order of the paper
pub mod Refusal
pub mod Sizes
pub mod Subfiles
pub mod Characters
pub mod Lengths
