pub mod Reading
pub mod Standing
pub mod Lying
pub mod Handling
