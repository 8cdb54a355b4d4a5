pub mod Beating
pub mod Histories
