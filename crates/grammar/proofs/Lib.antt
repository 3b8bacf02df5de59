pub mod StageLaws
pub mod Octets
pub mod Walks
pub mod Derives
pub mod HeaderHeard
pub mod HeaderReads
