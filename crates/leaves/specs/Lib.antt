pub mod Layout
pub mod Pairs
pub mod Steps
pub mod Opening
pub mod Asking
pub mod Ascent
