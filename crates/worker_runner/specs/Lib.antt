-- What the contracts of the crate cite.
pub mod Workers
pub mod Watched
pub mod Rounds
pub mod Ending
pub mod Counts
