pub mod TurnLaws
pub mod Pieces
