pub mod Files
pub mod Loading
