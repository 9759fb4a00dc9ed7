pub mod Definitions
pub mod laws
