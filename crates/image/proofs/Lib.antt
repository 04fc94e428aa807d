pub mod Images
pub mod Lengths
pub mod Live
pub mod Octets
