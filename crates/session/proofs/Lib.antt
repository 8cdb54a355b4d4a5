pub mod Causes
pub mod Next
pub mod Outcomes
pub mod Places
