pub mod Hearing
pub mod World
pub mod Drives
pub mod Events
pub mod Lists
pub mod Waves
pub mod Schedule
pub mod Laws
