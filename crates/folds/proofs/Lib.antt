pub mod ListLaws
pub mod LineTexts
pub mod GrowLaws
pub mod TightPut
