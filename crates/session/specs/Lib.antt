pub mod PlanText
pub mod Play
pub mod Fold
pub mod AllLines
pub mod laws
