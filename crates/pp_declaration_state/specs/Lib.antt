pub mod Defaulting
pub mod Filling
pub mod Wanting
pub mod Marking
