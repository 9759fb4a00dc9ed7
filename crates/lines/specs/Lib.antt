pub mod Number
pub mod Fields
pub mod Lines
pub mod runs
pub mod laws
