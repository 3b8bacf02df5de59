pub mod Answers
pub mod Resume
