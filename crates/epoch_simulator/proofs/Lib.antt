mod Breaking
mod Entries
mod Lists
mod Owed
mod Shown
mod Steps
