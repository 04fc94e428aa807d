pub mod MixLaws
pub mod OpenedLaws
