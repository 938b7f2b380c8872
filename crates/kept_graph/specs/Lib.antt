pub mod Pairs
pub mod Kept
pub mod Completed
pub mod Contracted
