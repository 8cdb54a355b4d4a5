pub mod Going
pub mod Histories
