pub mod Sound
pub mod laws
