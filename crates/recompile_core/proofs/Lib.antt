pub mod Writing
pub mod Making
pub mod Starting
pub mod Finishing
pub mod Carrying
