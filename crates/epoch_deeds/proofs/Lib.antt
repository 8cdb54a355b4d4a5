pub mod Later
pub mod Lists
