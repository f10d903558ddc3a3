pub mod Ranges
pub mod Symbols
pub mod GroupTable
pub mod Quarters
pub mod CalmSteps
