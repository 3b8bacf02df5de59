pub mod Line
pub mod Codes
pub mod Answers
