pub mod Exits
pub mod Search
pub mod Kept
pub mod Lent
