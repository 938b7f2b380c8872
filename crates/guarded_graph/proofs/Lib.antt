pub mod GuardLaws
pub mod PruneLaws
