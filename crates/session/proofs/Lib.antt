pub mod CarryLaws
pub mod PlayLaws
