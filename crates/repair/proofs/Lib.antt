pub mod RunLaws
pub mod ArrowLaws
pub mod WithLaws
pub mod CountLaws
pub mod AddLaws
pub mod LeaveLaws
pub mod MissingLaws
