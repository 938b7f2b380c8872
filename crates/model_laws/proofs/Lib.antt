pub mod LeftLaws
pub mod JoinLaws
pub mod PlaceLaws
pub mod FolderLaws
