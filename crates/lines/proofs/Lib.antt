pub mod LineLaws
pub mod OctetLaws
pub mod FitLaws
pub mod GradeLaws
pub mod FairLaws
pub mod CodeLaws
mod Samples
