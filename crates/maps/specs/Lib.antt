pub mod Places
pub mod Good
pub mod Maps
pub mod Heads
pub mod Said
pub mod Answers
