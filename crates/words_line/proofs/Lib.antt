pub mod Found
pub mod Numbers
pub mod Orders
pub mod Reading
pub mod Rows
pub mod Tables
pub mod Walking
pub mod WordLemmas
