pub mod Trimmed
pub mod Marks
