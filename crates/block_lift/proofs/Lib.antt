pub mod Following
pub mod Ready
pub mod Typing
pub mod Blocks
pub mod Handed
pub mod Known
