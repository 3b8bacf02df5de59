pub mod Names
pub mod Types
