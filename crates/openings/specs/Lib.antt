pub mod Opening
pub mod Sights
pub mod Answers
