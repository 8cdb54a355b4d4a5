mod Kept
mod Values
