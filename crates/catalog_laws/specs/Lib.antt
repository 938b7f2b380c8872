pub mod Containers
