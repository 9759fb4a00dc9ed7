pub mod Accepted
pub mod laws
