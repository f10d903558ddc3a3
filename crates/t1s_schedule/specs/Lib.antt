pub mod SharedLine
pub mod DriveContents
pub mod ScheduledRun
