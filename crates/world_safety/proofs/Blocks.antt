-- What a block on a disk stands for, call by call: bytes and registers.
pub mod Standing
pub mod Migrated
pub mod Keeping
pub mod Within
pub mod Owning
pub mod Values
pub mod Owned
pub mod Putting
pub mod Adding
pub mod Marked
pub mod Settled
