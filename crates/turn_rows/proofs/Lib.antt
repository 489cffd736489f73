pub mod Again
pub mod Placed
