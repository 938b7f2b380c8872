pub mod Arrows
pub mod Repairs
pub mod Missing
pub mod Answers
pub mod Steps
