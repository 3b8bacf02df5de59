pub mod Rule
pub mod Asks
