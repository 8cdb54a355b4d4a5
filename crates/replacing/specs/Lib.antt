pub mod ByTool
pub mod Example
pub mod Folders
pub mod Headers
pub mod Laws
