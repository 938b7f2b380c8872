pub mod Finding
pub mod Tables
pub mod Values
pub mod Lists
pub mod Related
pub mod Links
