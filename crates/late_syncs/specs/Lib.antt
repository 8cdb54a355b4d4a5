pub mod Devices
pub mod Epochs
pub mod Files
pub mod Late
pub mod LateDevice
