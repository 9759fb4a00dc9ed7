pub mod laws
pub mod runs
