pub mod AppendWords
pub mod AppendBook
pub mod AppendLaws
pub mod BoundsKept
pub mod CallLaws
pub mod ParityLaws
pub mod Writing
