pub mod Questions
pub mod Probed
pub mod Tried
pub mod Ensured
