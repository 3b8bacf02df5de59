pub mod KeptLaws
pub mod AgainLaws
pub mod MadeSays
pub mod EditSays
pub mod EditAnswers
pub mod LookupSays
pub mod EditsHold
