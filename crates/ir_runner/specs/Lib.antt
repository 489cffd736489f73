-- What the contracts of the crate cite.
pub mod Outputs
pub mod Rounds
pub mod Runs
