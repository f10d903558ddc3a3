pub mod InRange
pub mod Quarters
pub mod CalmSteps
pub mod Pairs
