-- What the contracts of the crate cite.
pub mod Lines
pub mod Untyped
pub mod Blocks
