pub mod formers
pub mod Causes
pub mod Shelf
pub mod Sink
pub mod Kept
pub mod Refused
pub mod Reading
