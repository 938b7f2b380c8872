pub mod Questions
pub mod First
pub mod Answers
pub mod Settled
