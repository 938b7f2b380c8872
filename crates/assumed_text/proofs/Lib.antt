pub mod SubjectLaws
pub mod PathLaws
pub mod TypeLaws
pub mod FormLaws
pub mod ReadLaws
pub mod OneText
