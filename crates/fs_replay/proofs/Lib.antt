pub mod CoverLaws
pub mod StandLaws
pub mod OutcomeLaws
pub mod CompareLaws
pub mod ExchangeLaws
