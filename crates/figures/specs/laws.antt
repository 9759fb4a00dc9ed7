pub mod BoundLaws
pub mod RangeLaws
pub mod Reach
