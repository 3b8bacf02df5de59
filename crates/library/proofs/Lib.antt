pub mod Contracts
pub mod Coincide
pub mod EncodingsHold
pub mod Believed
