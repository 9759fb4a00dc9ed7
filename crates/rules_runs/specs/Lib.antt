pub mod runs
