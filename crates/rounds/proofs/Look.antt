pub mod Asking
pub mod Counting
pub mod Ends
pub mod Histories
pub mod Turns
