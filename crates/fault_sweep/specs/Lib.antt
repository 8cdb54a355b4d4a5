pub mod Judging
pub mod Replayed
pub mod Sweeping
