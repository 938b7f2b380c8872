pub mod Told
pub mod Exchanged
