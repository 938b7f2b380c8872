pub mod Scanning
pub mod Nested
pub mod Refusing
pub mod TypeReading
pub mod ItemReading
