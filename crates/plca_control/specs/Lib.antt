pub mod State
pub mod Ranges
pub mod ControlTable
pub mod StatusTable
pub mod CalmControl
pub mod Runs
pub mod Laws
