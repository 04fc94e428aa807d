pub mod Chosen
pub mod Layers
pub mod NumberingLaws
