pub mod PlainLaws
pub mod RunLaws
pub mod CommitLaws
pub mod CallLaws
pub mod HistoryLaws
pub mod ReachedLaws
pub mod ListLaws
