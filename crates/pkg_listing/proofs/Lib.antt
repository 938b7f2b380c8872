pub mod SetLaws
pub mod PathLaws
pub mod FormLaws
pub mod FitLaws
pub mod TextLaws
pub mod StoredLaws
pub mod ReadLaws
