pub mod Opening
pub mod Bodies
pub mod Untitled
pub mod Beginning
pub mod Parents
