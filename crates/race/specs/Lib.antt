pub mod Bids
pub mod Answers
pub mod Agreement
pub mod Race
