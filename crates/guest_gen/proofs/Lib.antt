pub mod Jumps
pub mod Lines
pub mod Steps
pub mod Sizes
