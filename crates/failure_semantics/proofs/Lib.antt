pub mod ReasonLaws
pub mod Found
pub mod Once
pub mod OrderLaws
