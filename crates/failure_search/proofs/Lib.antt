pub mod QuestionLaws
pub mod PlaceLaws
pub mod StepLaws
pub mod FindLaws
