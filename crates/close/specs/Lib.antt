pub mod Close
pub mod laws
