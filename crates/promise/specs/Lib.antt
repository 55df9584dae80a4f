-- What is kept of a file when its listing is read back
pub mod Promise
