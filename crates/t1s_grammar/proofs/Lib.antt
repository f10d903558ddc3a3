pub mod Judgements
pub mod Longer
pub mod Beginnings
pub mod Faults
pub mod Sent
pub mod Text
pub mod RunPieces
