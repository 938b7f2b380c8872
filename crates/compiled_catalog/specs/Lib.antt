pub mod Attributes
pub mod Catalogs
pub mod Steps
