pub mod PlanRowLaws
