pub mod Changes
pub mod Rings
pub mod Silence
pub mod State
pub mod Stands
pub mod Calm
pub mod Taps
