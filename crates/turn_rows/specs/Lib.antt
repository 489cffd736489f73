-- What the tests cite.
pub mod Lifted
pub mod Good
