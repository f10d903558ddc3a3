pub mod ChangeLists
pub mod Histories
pub mod Silence
pub mod CalmTicks
pub mod Taps
