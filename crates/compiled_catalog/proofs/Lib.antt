pub mod HolderLaws
pub mod Growing
pub mod SoundLaws
