pub mod Repeated
pub mod Rounds
pub mod Cutting
