-- Reading a listing tells what it states
pub mod Parameters
pub mod Spans
pub mod Program
pub mod Characters
pub mod Header
pub mod Whole
pub mod Copied
pub mod Back
pub mod Live
pub mod ToldLoops
pub mod ToldHeader
pub mod ToldSteps
pub mod ToldCharacters
pub mod ToldFont
pub mod FontBack
