pub mod Grouping
pub mod Playing
pub mod Sessions
pub mod Hearing
