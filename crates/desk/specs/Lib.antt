pub mod Answering
pub mod Books
pub mod Cuts
pub mod Desks
pub mod Making
pub mod Piles
