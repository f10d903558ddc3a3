pub mod Arrivals
pub mod Frame
pub mod PackedNibbles
pub mod FrameCheck
pub mod Laws
