pub mod FollowLaws
pub mod ExchangeLaws
pub mod RunLaws
pub mod PartLaws
