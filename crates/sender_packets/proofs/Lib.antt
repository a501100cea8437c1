pub mod HandLaws
pub mod LyingLaws
