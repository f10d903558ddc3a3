pub mod State
pub mod TransmitTable
pub mod Runs
pub mod Laws
