pub mod Labels
pub mod Spelled
