pub mod Paths
pub mod Relation
pub mod Extensions
pub mod Exchanges
pub mod Faults
pub mod Table
pub mod Search
pub mod Counting
