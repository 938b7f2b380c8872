pub mod PairLaws
pub mod CompletionLaws
pub mod KeptLaws
pub mod AroundLaws
pub mod ContractedLaws
