pub mod SeekLaws
pub mod HandLaws
pub mod CalledLaws
pub mod BehindLaws
pub mod FoundLaws
