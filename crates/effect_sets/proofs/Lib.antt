pub mod Beside
pub mod ApartLaws
pub mod SetLaws
pub mod FoundLaws
pub mod WalkLaws
pub mod ClearLaws
