pub mod KeepLaws
pub mod PutLaws
pub mod EditLaws
pub mod OutcomeLaws
pub mod FieldLaws
