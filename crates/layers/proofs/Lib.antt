pub mod Mixes
pub mod Views
