pub mod SpotLaws
