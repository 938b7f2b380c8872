pub mod LimitLaws
pub mod NoneLaws
pub mod PartLaws
pub mod WithoutLaws
