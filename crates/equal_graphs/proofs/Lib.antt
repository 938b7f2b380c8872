pub mod JoinLaws
pub mod RunLaws
pub mod TryLaws
pub mod PartLaws
