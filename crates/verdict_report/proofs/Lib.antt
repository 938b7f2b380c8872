pub mod TrimmedLaws
pub mod VerdictLaws
pub mod NamedLaws
