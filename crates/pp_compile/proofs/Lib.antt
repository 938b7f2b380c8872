pub mod RoundLaws
pub mod LookLaws
pub mod RunLaws
pub mod NameLaws
pub mod SourceLaws
pub mod ReadingLaws
pub mod PromiseLaws
