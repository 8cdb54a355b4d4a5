pub mod Lowest
mod Requests
