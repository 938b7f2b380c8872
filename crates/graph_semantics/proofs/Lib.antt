pub mod Basics
pub mod Elements
pub mod RealPlaces
pub mod Inserting
pub mod AllowedLaws
pub mod OneGraph
