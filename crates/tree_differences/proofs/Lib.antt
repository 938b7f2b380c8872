pub mod OrderLaws
pub mod PlacedLaws
pub mod ListLaws
