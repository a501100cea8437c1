-- A run that satisfies every premise of demand 3.
pub mod Deciding
pub mod Script
pub mod Parts
pub mod Sample
pub mod Unanswered
pub mod Flowing
