pub mod Bounds
pub mod Footprint
pub mod Opens
pub mod Questions
pub mod Format
