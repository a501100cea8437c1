pub mod StepLaws
pub mod AskedLaws
