pub mod GuardLaws
pub mod GraphLaws
pub mod NoneGiven
pub mod SecondRuns
