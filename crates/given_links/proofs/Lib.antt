pub mod ReadLaws
pub mod ProgramLaws
pub mod BuiltLaws
