-- What the contracts of the crate cite.
pub mod Shared
pub mod Hall
