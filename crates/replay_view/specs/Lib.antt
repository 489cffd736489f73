-- Following a journal: what an entry comes to, how far a walker has come, and what it shows.
pub mod Grown
pub mod Gates
pub mod Codes
pub mod Follow
pub mod Moments
pub mod Verdicts
pub mod Faults
pub mod Views
