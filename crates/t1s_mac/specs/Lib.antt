pub mod CalmMac
pub mod DeferenceTable
pub mod Draws
pub mod Laws
pub mod MacTable
pub mod PickedDraws
pub mod State
pub mod TurnRow
