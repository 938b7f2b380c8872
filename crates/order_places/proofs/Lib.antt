pub mod Counting
pub mod Following
pub mod Exchanging
pub mod Placing
