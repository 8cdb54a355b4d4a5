pub mod Calls
pub mod Hearing
pub mod Knows
pub mod Outcomes
pub mod Sights
pub mod Steps
