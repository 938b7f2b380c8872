pub mod OrderLaws
pub mod WriteLaws
