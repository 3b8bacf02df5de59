pub mod Lookups
pub mod Answers
