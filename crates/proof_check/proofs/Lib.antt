pub mod LitLaws
pub mod Numbers
pub mod Chains
pub mod WordLaws
pub mod Turns
pub mod Spelling
pub mod Writing
