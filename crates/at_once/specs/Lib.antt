pub mod AtOnce
pub mod Beginnings
pub mod Deeds
pub mod Disks
pub mod Images
pub mod InTurn
pub mod Joined
pub mod Power
