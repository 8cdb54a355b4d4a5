pub mod Learners
