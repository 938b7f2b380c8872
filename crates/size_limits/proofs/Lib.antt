pub mod WeightLaws
pub mod OnceLaws
