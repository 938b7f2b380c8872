pub mod CopyLaws
pub mod MarkLaws
pub mod KeptLaws
