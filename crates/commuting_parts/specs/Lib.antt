pub mod Runs
pub mod Parts
pub mod Prints
pub mod Sweeps
pub mod Splits
