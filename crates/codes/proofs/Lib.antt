pub mod LineLaws
pub mod MapLaws
pub mod BehindLaws
