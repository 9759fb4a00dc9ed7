pub mod Calls
pub mod Load
pub mod laws
