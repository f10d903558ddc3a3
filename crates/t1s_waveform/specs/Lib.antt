pub mod Dumps
pub mod Wires
pub mod Values
