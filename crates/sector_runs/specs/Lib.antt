pub mod Device
pub mod Made
pub mod OneLog
pub mod OverDevices
pub mod Owning
pub mod Showing
pub mod Steps
pub mod Touches
