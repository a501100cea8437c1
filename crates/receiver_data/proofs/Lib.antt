pub mod SortLaws
pub mod MoveLaws
pub mod DataLaws
pub mod TakeLaws
