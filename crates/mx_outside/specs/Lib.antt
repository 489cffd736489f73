pub mod Causes
pub mod Names
pub mod Bytes
pub mod Memory
pub mod Real
