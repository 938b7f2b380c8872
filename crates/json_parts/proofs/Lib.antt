pub mod DataLaws
pub mod StoredLaws
