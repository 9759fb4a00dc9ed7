pub mod Figures
pub mod Ranges
pub mod laws
