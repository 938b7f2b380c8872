pub mod EntryLaws
pub mod ProbeLaws
