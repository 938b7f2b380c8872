pub mod Smaller
