pub mod Words
pub mod Rows
pub mod Attributes
pub mod Names
pub mod Models
