pub mod Json
pub mod Tasks
