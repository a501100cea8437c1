pub mod RecordLaws
pub mod ReadingLaws
pub mod Cutting
pub mod Written
