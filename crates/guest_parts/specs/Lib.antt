-- What the contracts of the crate cite.
pub mod Standing
pub mod Requests
pub mod Running
pub mod Points
pub mod Guest
pub mod Entries
pub mod Calls
