pub mod Halves
pub mod AnswerLaws
pub mod WearTurns
pub mod Turns
pub mod PickLaws
pub mod CloseLaws
pub mod NeedLaws
