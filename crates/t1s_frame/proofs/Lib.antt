pub mod CheckSteps
pub mod Nibbles
pub mod Pieces
pub mod Whole
pub mod PackedNibbles
