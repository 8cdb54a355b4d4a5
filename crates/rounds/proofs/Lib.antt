pub mod Answering
pub mod Beat
pub mod Going
pub mod Histories
pub mod Look
pub mod Marking
