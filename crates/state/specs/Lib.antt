pub mod Fresh
pub mod Ages
pub mod laws
