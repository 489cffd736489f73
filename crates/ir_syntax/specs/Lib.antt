pub mod Cond
pub mod Typed
pub mod Width
