pub mod Rows
pub mod CalmTicks
pub mod RunLaws
