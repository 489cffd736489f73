-- What the contracts of the crate cite: the steps of one search, and whole searches.
pub mod Frame
pub mod Search
