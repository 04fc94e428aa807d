pub mod PlainBook
pub mod Outcome
pub mod Histories
pub mod Answering
pub mod Law
pub mod Example
