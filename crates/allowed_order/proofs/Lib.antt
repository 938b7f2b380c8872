pub mod Entries
pub mod NameLaws
pub mod OrderLaws
pub mod ApartLaws
