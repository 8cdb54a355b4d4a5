pub mod OverDevices
pub mod World
