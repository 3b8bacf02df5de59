pub mod OpenLaws
pub mod SightLaws
