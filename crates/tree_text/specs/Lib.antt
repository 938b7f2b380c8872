pub mod TreeText
pub mod Reading
pub mod ProgramText
