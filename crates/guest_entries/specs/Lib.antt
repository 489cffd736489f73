-- What the contracts of the crate cite.
pub mod Called
pub mod Steps
pub mod Entered
pub mod Growth
