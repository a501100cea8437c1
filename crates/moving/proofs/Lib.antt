pub mod FetchLaws
pub mod RefileLaws
pub mod PartLaws
