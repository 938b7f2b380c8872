pub mod Ranges
pub mod Marks
pub mod Unmarks
pub mod Scans
pub mod Exchanges
pub mod Visiting
pub mod Extending
