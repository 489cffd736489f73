-- What the contracts of the crate cite: the library's data, and the table of its functions.
pub mod Library
pub mod Outcome
pub mod Words
pub mod Threads
pub mod Mutexes
pub mod Searches
pub mod Streams
pub mod Sync
pub mod Row
pub mod Steps
