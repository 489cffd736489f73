-- What the contracts of the crate cite: the rooms as data, and the table of the nine calls.
pub mod Places
pub mod Rooms
pub mod Codes
pub mod Conditions
pub mod Barriers
pub mod Once
pub mod Row
