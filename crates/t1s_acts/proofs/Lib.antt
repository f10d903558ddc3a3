pub mod ActNumbers
pub mod ActSteps
