pub mod Ranges
pub mod DataPathTable
pub mod CalmData
pub mod Runs
pub mod Laws
