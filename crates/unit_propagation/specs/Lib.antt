pub mod Literals
pub mod Stored
pub mod Trails
pub mod Watching
pub mod Visits
