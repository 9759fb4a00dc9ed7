pub mod Worn
pub mod laws
