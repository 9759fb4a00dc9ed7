pub mod Mapping
pub mod Segments
pub mod Bytes
pub mod runs
pub mod laws
