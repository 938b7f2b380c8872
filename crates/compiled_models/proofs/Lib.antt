pub mod AlikeLaws
pub mod AttributeLaws
pub mod NativeLaws
pub mod PlacedLaws
pub mod ProgramLaws
pub mod SparedLaws
