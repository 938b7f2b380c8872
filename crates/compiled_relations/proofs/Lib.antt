pub mod PathLaws
pub mod NameLaws
pub mod TableLaws
pub mod ListLaws
pub mod FoundLaws
pub mod RelationLaws
pub mod PartLaws
pub mod LinkLaws
