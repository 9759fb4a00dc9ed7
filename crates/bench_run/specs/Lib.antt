pub mod Input
pub mod Texts
pub mod Turns
pub mod laws
