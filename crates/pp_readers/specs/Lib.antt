pub mod Marks
pub mod Values
pub mod Expressions
pub mod Parsed
pub mod Combining
pub mod Names
pub mod Statements
pub mod Leads
