pub mod LimitLaws
pub mod NoneLaws
pub mod EntryLaws
pub mod WithoutLaws
