pub mod Clean
pub mod Scan
