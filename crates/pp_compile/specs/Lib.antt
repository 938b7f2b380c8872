pub mod Rounds
pub mod Sources
pub mod Looking
