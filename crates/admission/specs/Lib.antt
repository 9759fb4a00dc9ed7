pub mod RangeLaws
pub mod DeviceLaws
pub mod AdmissionLaws
