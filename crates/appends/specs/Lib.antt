pub mod Append
pub mod Calls
pub mod Parity
