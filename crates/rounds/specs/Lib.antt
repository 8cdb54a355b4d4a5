pub mod Beat
pub mod Kept
pub mod Look
pub mod Marking
pub mod Status
