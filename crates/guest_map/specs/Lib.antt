pub mod Addresses
pub mod Entry
pub mod Layout
