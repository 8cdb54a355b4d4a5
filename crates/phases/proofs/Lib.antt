pub mod Answering
pub mod Beginning
pub mod Calling
pub mod Ending
pub mod Hearing
pub mod Starting
pub mod Taking
pub mod Visiting
