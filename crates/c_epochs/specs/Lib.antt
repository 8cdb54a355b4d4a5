pub mod Calls
pub mod Ends
pub mod Images
pub mod Numbers
pub mod Steps
pub mod Told
pub mod Views
