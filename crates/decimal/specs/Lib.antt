-- What is said of `decimal`: the text that TFtoPL prints, what a decimal text says, and a text in its room
pub mod Text
pub mod Value
pub mod Room
