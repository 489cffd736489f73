pub mod Plain
pub mod Counting
pub mod Typing
pub mod Only
