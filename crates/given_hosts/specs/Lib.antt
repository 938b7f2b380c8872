pub mod Given
pub mod Guard
