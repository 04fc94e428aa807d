pub mod BoundLaws
pub mod FootprintLaws
pub mod OpensLaws
pub mod QuestionLaws
pub mod FormatLaws
