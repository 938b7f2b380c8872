pub mod SearchLaws
pub mod BodyLaws
pub mod BeginningLaws
pub mod ParentLaws
