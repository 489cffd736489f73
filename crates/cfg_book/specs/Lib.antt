-- What the contracts of the crate cite.
pub mod Graph
pub mod Outcome
