pub mod EditLaws
pub mod LostLaws
pub mod StepLaws
pub mod MarkLaws
pub mod NamedLaws
