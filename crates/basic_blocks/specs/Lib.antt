pub mod Places
pub mod Placed
pub mod Span
pub mod Bytes
pub mod Reach
pub mod Onward
