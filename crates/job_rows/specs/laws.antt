pub mod JobRowLaws
