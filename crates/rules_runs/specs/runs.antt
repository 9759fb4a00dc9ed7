pub mod MarkedCases
pub mod PrintedSession
pub mod ClosedRuns
pub mod QueryRuns
pub mod Reached
pub mod AboveReached
pub mod WearRuns
