pub mod History
pub mod Kept
pub mod Notes
pub mod Status
