pub mod Words
pub mod Shadowed
