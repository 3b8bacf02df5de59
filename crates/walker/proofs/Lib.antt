pub mod WalkLaws
pub mod TrailLaws
