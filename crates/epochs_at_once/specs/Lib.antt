pub mod AtOnce
pub mod Disks
pub mod Images
pub mod Joined
pub mod Tasks
