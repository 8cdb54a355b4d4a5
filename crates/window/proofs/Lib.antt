pub mod Calling
pub mod Following
pub mod Hearing
pub mod Pasts
pub mod Readings
pub mod Seeing
pub mod Steps
