pub mod Run
pub mod Stands
pub mod Statements
pub mod laws
