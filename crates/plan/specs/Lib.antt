pub mod Number
pub mod Records
pub mod Questions
pub mod WellFormed
