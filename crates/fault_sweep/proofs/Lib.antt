pub mod Comparing
pub mod Counting
pub mod Covering
pub mod Following
pub mod Judged
pub mod Recovering
pub mod Replaying
