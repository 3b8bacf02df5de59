pub mod TextLaws
pub mod CleanLaws
pub mod TwoLaws
pub mod PassLaws
pub mod ScanLaws
pub mod BehindLaws
