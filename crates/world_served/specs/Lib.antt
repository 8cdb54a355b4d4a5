pub mod Alone
pub mod Attempts
pub mod Reached
pub mod Served
