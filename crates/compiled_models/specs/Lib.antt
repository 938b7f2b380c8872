pub mod Assumed
pub mod Files
pub mod Programs
pub mod Hosts
pub mod Alike
