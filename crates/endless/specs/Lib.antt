pub mod Epochs
pub mod Examples
pub mod Headline
pub mod Lived
pub mod WithoutEnd
