pub mod Ending
pub mod Placing
pub mod Tried
