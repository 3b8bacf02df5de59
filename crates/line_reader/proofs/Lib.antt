pub mod Steps
pub mod FitLaws
pub mod OctetSteps
pub mod HandlingLaws
pub mod HeldLaws
pub mod LineSteps
