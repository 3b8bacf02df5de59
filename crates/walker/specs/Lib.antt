pub mod Walk
pub mod Trails
pub mod Answers
