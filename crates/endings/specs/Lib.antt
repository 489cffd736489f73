-- What the contracts of the crate cite.
pub mod Ending
pub mod Line
