pub mod LookupLaws
pub mod FormLaws
