pub mod Bits
pub mod Taps
pub mod Histories
pub mod InStep
pub mod Nibbles
