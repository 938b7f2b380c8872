pub mod Stages
pub mod Terms
pub mod Reports
pub mod Replays
pub mod Explanations
pub mod Questions
pub mod Sides
pub mod Comparisons
