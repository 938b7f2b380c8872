pub mod Failures
pub mod Told
pub mod Orders
