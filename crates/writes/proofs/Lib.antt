pub mod PutLaws
pub mod FormLaws
pub mod WriteLaws
pub mod LeftLaws
