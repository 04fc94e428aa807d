pub mod Rooms
pub mod Edits
