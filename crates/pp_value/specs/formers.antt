pub mod keyed
pub mod shared
