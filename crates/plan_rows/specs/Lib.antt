pub mod PlanRows
pub mod laws
