pub mod Pieces
pub mod Leads
pub mod PieceWithLead
