pub mod Table
pub mod Asked
pub mod Moves
pub mod Stops
pub mod Older
pub mod Striding
