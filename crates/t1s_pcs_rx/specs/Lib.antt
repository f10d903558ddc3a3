pub mod Views
pub mod PieceReading
pub mod Receiver
pub mod ReceiveTable
pub mod Ranges
pub mod Leaves
pub mod Laws
pub mod Tails
