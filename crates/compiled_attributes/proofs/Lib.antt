pub mod PlaceLaws
pub mod TableLaws
pub mod PieceLaws
pub mod OrderLaws
pub mod SortedLaws
pub mod AttributeLaws
pub mod StayLaws
