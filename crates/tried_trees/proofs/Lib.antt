pub mod PlaceLaws
pub mod TriedLaws
pub mod FirstLaws
