pub mod Json
pub mod CatalogText
