pub mod Gathered
pub mod Segments
pub mod Laid
