pub mod Layout
pub mod Elf
pub mod Library
pub mod Loading
pub mod First
pub mod Index
pub mod Sound
pub mod Spans
