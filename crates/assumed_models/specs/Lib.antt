pub mod Behaviors
pub mod Edits
pub mod LostEdits
