pub mod Receptions
pub mod ShownPieces
pub mod HeardPieces
pub mod HeardAlone
pub mod CaptureOfNode
pub mod HandedOut
pub mod LeavingHeard
