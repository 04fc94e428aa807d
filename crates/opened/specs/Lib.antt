pub mod Mixes
pub mod Openings
pub mod Parts
pub mod Places
pub mod Verdicts
