pub mod RequestLaws
pub mod HandLaws
