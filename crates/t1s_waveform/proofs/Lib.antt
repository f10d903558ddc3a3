pub mod Dumps
pub mod Codes
