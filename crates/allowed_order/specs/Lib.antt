pub mod Names
pub mod AllowedOrder
