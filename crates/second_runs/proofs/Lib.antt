pub mod FirstExtension
pub mod SecondLaws
pub mod GroupLaws
