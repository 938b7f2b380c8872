pub mod ProbingLaws
pub mod RunLaws
pub mod MissingLaws
pub mod EnsuredLaws
