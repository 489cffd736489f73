-- What the contracts of the crate cite.
pub mod Costs
pub mod Counts
pub mod Turned
pub mod Guest
pub mod Alone
pub mod Context
