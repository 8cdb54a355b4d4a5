pub mod Calls
pub mod Inside
pub mod Kept
pub mod Moves
pub mod Notes
pub mod Room
pub mod Steps
