pub mod Asking
pub mod Forms
pub mod Objects
pub mod Results
pub mod Texts
pub mod Told
pub mod Wrong
