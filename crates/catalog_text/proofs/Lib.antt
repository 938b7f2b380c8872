pub mod TextLaws
pub mod JsonLaws
