pub mod Relations
pub mod Automatic
pub mod Graphs
pub mod Allowed
