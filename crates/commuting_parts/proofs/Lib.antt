pub mod CommuteLaws
pub mod PartLaws
pub mod PrintLaws
pub mod SameLaws
pub mod SetLaws
pub mod FolderLaws
pub mod SweepLaws
pub mod SplitLaws
