pub mod Answers
pub mod Calls
pub mod History
pub mod Kept
pub mod Notes
pub mod Status
