pub mod ArrayLaws
pub mod DeviceLaws
