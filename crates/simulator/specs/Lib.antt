pub mod Answers
pub mod Calls
pub mod Events
pub mod Kept
pub mod OneLog
pub mod Past
