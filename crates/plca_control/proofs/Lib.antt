pub mod Rows
pub mod CalmTicks
pub mod RunLaws
pub mod RunRanges
