pub mod Words
pub mod Expressions
pub mod Statements
pub mod Places
pub mod Canonical
