pub mod Examples
pub mod Marking
pub mod Operations
pub mod Tasks
pub mod Tries
