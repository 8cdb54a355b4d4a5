pub mod Cutting
pub mod Plains
pub mod Seconds
