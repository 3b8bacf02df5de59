pub mod Heard
pub mod Listening
pub mod Hears
pub mod Pieces
