pub mod Devices
pub mod Epochs
pub mod Files
pub mod Flags
pub mod Late
