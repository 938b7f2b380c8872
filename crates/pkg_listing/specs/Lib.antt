pub mod Packages
pub mod Reading
pub mod Form
pub mod ListingText
