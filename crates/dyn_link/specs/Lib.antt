pub mod Dynamic
pub mod Relocations
pub mod Bound
pub mod Placed
pub mod Entries
