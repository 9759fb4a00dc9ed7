pub mod Arrays
pub mod laws
