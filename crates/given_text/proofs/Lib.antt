pub mod FolderLaws
pub mod JustLaws
pub mod CheckLaws
pub mod FormLaws
pub mod ReadLaws
pub mod OneGiven
