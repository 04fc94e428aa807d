pub mod Mixes
pub mod Runs
pub mod Cuts
pub mod Steps
pub mod Onward
pub mod Done
pub mod Places
