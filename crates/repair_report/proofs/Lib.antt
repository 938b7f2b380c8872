pub mod QuoteLaws
pub mod ToldLaws
