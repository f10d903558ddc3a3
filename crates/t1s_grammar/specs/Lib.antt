pub mod Burst
pub mod Prefixes
pub mod PlaceTable
pub mod Longer
pub mod Sent
pub mod Reading
pub mod Laws
