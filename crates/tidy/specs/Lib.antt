pub mod Keys
pub mod Pass
pub mod Calls
pub mod Answers
