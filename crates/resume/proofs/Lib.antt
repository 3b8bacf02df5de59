pub mod ResumeLaws
pub mod AppendLaws
pub mod BehindLaws
