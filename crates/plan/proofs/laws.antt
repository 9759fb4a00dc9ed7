pub mod Whole
pub mod WearLaws
pub mod Accepted
pub mod RecordLaws
pub mod QuestionLaws
pub mod SizeLaws
pub mod NumberLaws
