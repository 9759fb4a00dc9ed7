pub mod Audits
pub mod Filled
pub mod laws
