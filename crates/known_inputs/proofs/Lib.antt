pub mod EditLaws
pub mod ReadingLaws
pub mod OneReading
