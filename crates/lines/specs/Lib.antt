pub mod Lines
pub mod Fit
pub mod Grades
