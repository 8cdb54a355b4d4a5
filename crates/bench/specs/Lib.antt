pub mod WholeAttempt
