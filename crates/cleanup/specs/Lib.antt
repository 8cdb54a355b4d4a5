pub mod Left
pub mod Purges
