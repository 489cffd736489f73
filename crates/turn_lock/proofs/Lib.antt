pub mod Entries
pub mod Lists
pub mod Passes
pub mod Steps
