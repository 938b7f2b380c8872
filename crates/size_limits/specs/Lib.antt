pub mod Weights
pub mod Paths
