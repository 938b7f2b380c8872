pub mod Assumptions
pub mod Form
pub mod Reading
