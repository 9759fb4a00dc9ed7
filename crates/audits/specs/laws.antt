pub mod LoadLaws
pub mod LineLaws
pub mod TableLaws
pub mod JobLaws
pub mod FillLaws
