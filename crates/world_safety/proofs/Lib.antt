pub mod Blocks
pub mod Moves
pub mod Runs
pub mod Claims
