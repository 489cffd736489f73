-- What the contracts of the crate cite.
pub mod Plans
pub mod World
pub mod Answer
pub mod After
pub mod Causes
pub mod Runs
