pub mod Written
pub mod Forms
pub mod Rows
pub mod laws
