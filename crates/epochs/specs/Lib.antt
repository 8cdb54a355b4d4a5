pub mod Acts
pub mod Bytes
pub mod Laws
pub mod Numbers
pub mod OneLog
pub mod Pasts
pub mod Showing
