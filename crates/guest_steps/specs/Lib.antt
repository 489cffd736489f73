-- What the contracts of the crate cite.
pub mod Ages
pub mod Kept
pub mod Own
pub mod Stretched
pub mod Ahead
