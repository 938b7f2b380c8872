pub mod Forms
pub mod Versions
