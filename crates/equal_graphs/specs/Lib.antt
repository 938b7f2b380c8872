pub mod Equal
pub mod Questions
pub mod Tried
pub mod Compared
