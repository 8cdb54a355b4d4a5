pub mod Claims
pub mod Devices
pub mod Epochs
pub mod Handles
pub mod Held
pub mod Opening
pub mod Owners
pub mod Showing
