pub mod Links
pub mod Reading
