pub mod QuestionLaws
pub mod JudgeLaws
pub mod CommuteLaws
pub mod EachPairLaws
pub mod WholeLaws
