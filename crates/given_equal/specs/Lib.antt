pub mod Sizes
pub mod Questions
pub mod Answers
