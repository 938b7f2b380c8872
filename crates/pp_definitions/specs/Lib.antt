pub mod Places
pub mod Gathering
