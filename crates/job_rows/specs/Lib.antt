pub mod JobRows
pub mod Cursors
pub mod laws
