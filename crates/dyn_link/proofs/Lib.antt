pub mod Finding
pub mod Tables
pub mod Names
pub mod Placing
pub mod Writing
pub mod Ordering
pub mod Ruled
