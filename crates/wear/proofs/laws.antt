pub mod WearLaws
