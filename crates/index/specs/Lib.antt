pub mod Nodes
pub mod Search
pub mod Shape
pub mod Places
pub mod Meaning
pub mod Showing
pub mod Keeping
