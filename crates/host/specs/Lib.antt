pub mod Alone
pub mod Host
pub mod Kept
