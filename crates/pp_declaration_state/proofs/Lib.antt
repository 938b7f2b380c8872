pub mod DefaultLaws
pub mod FillingLaws
pub mod MarkLaws
