pub mod Events
pub mod Fits
pub mod Heard
pub mod History
pub mod Kept
pub mod Plan
pub mod Run
pub mod Running
