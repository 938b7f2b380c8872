pub mod Numbers
pub mod Links
pub mod Numbered
pub mod Named
pub mod Files
pub mod Pairs
pub mod Circles
pub mod Whole
