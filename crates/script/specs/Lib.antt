pub mod Asking
pub mod Forms
pub mod Tasks
