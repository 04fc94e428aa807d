pub mod AnswerLaws
pub mod PileLaws
