pub mod Faults
pub mod RaceText
pub mod Tasks
