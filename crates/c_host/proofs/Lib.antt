mod Ended
pub mod Shown
mod Steps
