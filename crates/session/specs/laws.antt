pub mod PlayLaws
pub mod RoundLaws
pub mod FoldLaws
pub mod CutLaws
pub mod AllLinesLaws
pub mod InputLaws
pub mod PlanTextLaws
