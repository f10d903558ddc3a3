pub mod Causes
pub mod Octets
pub mod Memory
pub mod Numbers
pub mod Limits
pub mod NodeIds
