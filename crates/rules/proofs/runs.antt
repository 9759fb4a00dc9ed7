pub mod InfoRuns
