pub mod Gates
pub mod Sharing
pub mod Placed
pub mod Agreement
