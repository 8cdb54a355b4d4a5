pub mod Counted
pub mod Running
