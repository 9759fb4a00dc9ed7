pub mod Appended
pub mod Pages
pub mod Texts
pub mod runs
pub mod laws
