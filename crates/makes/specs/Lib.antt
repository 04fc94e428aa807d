pub mod Makes
pub mod Probes
