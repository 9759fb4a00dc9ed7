pub mod Dues
pub mod SoundLaws
pub mod SoundCases
