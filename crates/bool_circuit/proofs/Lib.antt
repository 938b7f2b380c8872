pub mod Values
pub mod Growth
pub mod Place
pub mod Loops
