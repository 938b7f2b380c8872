pub mod Found
pub mod Named
