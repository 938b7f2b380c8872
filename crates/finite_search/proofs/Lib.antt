pub mod Deciding
pub mod Extensions
pub mod Entries
pub mod Trees
pub mod Determinism
