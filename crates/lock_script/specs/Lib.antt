pub mod Draft
pub mod Events
pub mod Faults
pub mod Lines
pub mod Reading
pub mod Script
pub mod Spelling
pub mod Words
