pub mod CalmTicks
pub mod FrameEnds
pub mod HeadNibbles
pub mod Rows
pub mod Runs
