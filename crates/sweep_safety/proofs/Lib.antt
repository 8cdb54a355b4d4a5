pub mod Entries
pub mod Keeping
pub mod Recovering
pub mod Right
pub mod Swept
