pub mod LentSteps
