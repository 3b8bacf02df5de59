pub mod ScanLaws
pub mod EndLaws
pub mod LineLaws
pub mod TightLaws
