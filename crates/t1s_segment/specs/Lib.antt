pub mod State
pub mod Numbers
pub mod Stands
pub mod Stretches
