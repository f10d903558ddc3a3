pub mod Bits
pub mod Scrambled
pub mod Register
pub mod Laws
