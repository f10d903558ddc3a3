pub mod Digits
pub mod Growth
mod TraitClauses
