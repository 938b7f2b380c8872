pub mod Verified
pub mod Migrated
pub mod Inputs
pub mod Runs
pub mod Headline
pub mod Answers
pub mod Steps
