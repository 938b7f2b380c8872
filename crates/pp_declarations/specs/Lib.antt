pub mod Including
pub mod Classes
pub mod Depth
pub mod Choosing
pub mod Frames
