pub mod Lines
pub mod GivenTree
pub mod Told
pub mod Steps
