pub mod Given
pub mod Rows
pub mod Fragments
pub mod Places
pub mod Attributes
