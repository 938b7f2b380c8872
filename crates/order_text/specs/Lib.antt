pub mod OrderText
