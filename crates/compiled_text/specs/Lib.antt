pub mod Names
pub mod Values
pub mod Compiled
pub mod Reading
pub mod Form
