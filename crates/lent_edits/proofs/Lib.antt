pub mod ThinLaws
pub mod PutInLaws
