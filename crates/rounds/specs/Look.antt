pub mod History
pub mod Kept
pub mod Shown
pub mod Status
