pub mod Fields
pub mod Edits
pub mod Answers
