pub mod NumberLaws
pub mod FieldLaws
